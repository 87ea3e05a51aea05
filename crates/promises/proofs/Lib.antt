-- Laws of promises: what follows from its definitions.
pub mod Accepting
pub mod Awaiting
pub mod BoundaryLaws
pub mod Declined
pub mod Evaluating
pub mod Fetching
pub mod Finishing
pub mod FreshCache
pub mod Implementing
pub mod LendingLaws
pub mod Levels
pub mod Naming
pub mod Outside
pub mod Printing
pub mod Promises
pub mod Showing
