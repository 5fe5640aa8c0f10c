pub mod Bytes
pub mod Journals
pub mod Lines
pub mod Missing
pub mod Sealed
pub mod Standard
pub use Bytes.{nothing_passed, page_shown, refused_shown, response_read, response_refused, response_wrote, some_and, task_ran, words_refused}
pub use Journals.{confirm_ran, confirmed_outcome, nothing_printed, select_failed, select_ran, selected_nothing, selected_outcome, states_outcome}
pub use Lines.{lines_done, lines_part}
pub use Missing.{lacking_outcome, received_outcome}
pub use Sealed.{seal_done, seal_over, seal_wrong}
pub use Standard.{standard}
