pub mod EndTests
