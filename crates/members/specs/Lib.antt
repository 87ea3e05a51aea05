pub mod Members
pub mod MembersLaws
