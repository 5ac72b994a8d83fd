pub mod BlocksOf
pub mod EdgesOf
pub mod GraphOf
pub mod HeadsOf
pub mod Following
