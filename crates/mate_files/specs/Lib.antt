pub mod Counts
pub mod Files
pub mod OsFiles
pub mod OsSink
pub mod Pen
pub mod Sink
pub mod MemFiles
pub mod MemSink
