-- A ground's validation depends on that ground alone.
pub mod Locality
pub mod Alike
pub mod ShortKeys
