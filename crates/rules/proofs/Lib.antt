-- Laws of rules: what follows from its definitions.
pub mod NumbersLaws
pub mod RulesLaws
pub mod WindowsLaws
