-- Lemmas of logs.
pub mod LogTables
pub mod PutChangesLogsAlone
