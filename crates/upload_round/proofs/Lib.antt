pub mod Made
pub mod Results
