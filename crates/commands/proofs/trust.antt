-- The guarantees for the output of scripts: by command, then by line.
pub mod Words
pub mod Lines
