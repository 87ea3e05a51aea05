-- Definitions: what the papers' reference model is, and the terms of demand 3.
pub mod Lists
pub mod Language
pub mod Model
pub mod Responses
pub mod Since
pub mod Runs
-- What is asked of a language, and the theory of the model alone.
pub mod ListLaws
pub mod Laws
pub mod Forms
pub mod Invariant
pub mod Entries
pub mod Steps
pub mod Preserved
pub mod Numbers
pub mod Counts
pub mod Lasting
pub mod Progress
pub mod Fresh
-- Demand 3 of every engine that implements the model.
pub mod Engine
pub mod Demand
pub mod Implements
pub mod Agreement
pub mod DemandLaws
-- From tables of entries to the model: for the engine's own proof that it implements it.
pub mod Decoding
pub mod Graph
pub mod Binder
pub mod Sweep
pub mod Previews
pub mod Checks
