-- Roles, tapes and worlds.
pub mod Tapes
pub mod Secrets
-- Changes of tapes, and what is shown by them.
pub mod Changes
pub mod Rule
-- What a place of a run alone shows, and when a task is secure in all worlds.
pub mod Places
pub mod ByTwo
-- The rule as a checker goes by it.
pub mod Forms
