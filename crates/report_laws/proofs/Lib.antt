mod Digits
mod RunsOnce
mod OrderOnce
mod OfRuns
mod Explained
-- Examples.
mod TryOrders
