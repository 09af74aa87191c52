-- The laws of the writer's answer.
pub mod StoreTests
pub mod Writing
