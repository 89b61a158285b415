pub mod Untaken
pub mod Told
pub mod Callable
