pub mod ClassFileLists
pub mod Fronts
pub mod Joined
pub mod WrittenFiles
pub mod Said
