pub mod Reached
pub mod Marked
-- Worlds by their secrets.
pub mod Numbered
pub mod Grouping
-- What an instruction writes, in order.
pub mod Passing
-- Runs beside a course.
pub mod Along
-- Changes by groups.
pub mod Pairs
pub mod Places
-- All worlds along a course.
pub mod Partings
-- Groups of one size.
pub mod EvenGroups
-- Runs that take one course.
pub mod Courses
-- What stands in the rows.
pub mod Cells
-- The verdict.
pub mod Judged
