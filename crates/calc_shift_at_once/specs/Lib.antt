pub mod BeforeLast
