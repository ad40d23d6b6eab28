pub mod EncodedData
