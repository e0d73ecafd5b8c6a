pub mod Files
pub mod BenchTexts
