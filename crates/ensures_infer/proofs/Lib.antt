pub mod SameTyping
pub mod Forming
pub mod Filtering
pub mod Saying
pub mod Returning
pub mod Finding
