pub mod Turns
pub mod Replays
pub mod Reports
pub mod FaultNotes
