-- Contents beside abstract cells, and writes of the ones beside writes of the others.
pub mod Fits
pub mod WriteFits
-- A word that breaks no rule is followed over abstract cells, and so are words.
pub mod Places
pub mod Forms
pub mod Words
-- The laws.
pub mod Accepted
pub mod OwnAccepted
-- Examples.
mod TryRules
