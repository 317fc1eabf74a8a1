pub mod Reached
pub mod Shown
pub mod Trails
-- What an instruction writes, in order.
pub mod LatchList
-- Worlds by their secrets.
pub mod Groups
-- The course of a run alone.
pub mod Course
pub mod Rows
-- What the rows of all worlds have in one place.
pub mod PairOrder
pub mod Columns
-- All worlds along a course.
pub mod Table
-- On the way to a verdict.
pub mod Certify
