pub mod Held
pub mod HeldLaws
pub mod Links
pub mod LinksLaws
pub mod Memory
pub mod Nodes
pub mod KindsLaws
pub mod Numbered
