pub mod Count
pub mod Files
pub mod HeldFiles
pub mod MemFiles
pub mod MemSink
pub mod Sink
pub mod Taken
