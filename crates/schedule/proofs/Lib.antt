-- Laws of schedule: what follows from its definitions.
pub mod Examples
