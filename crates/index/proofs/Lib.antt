pub mod Building
