mod Changes
mod Making
mod Planned
mod Reading
mod Records
