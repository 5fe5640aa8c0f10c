pub mod Sums
pub mod ParcelRule
pub mod WindowRule
pub mod Paging
pub mod Growing
pub mod Steps
pub mod Boarding
pub mod Halting
pub mod Refusals
pub mod Showing
pub mod Running
pub mod Empty
pub mod Counting
pub use ParcelRule.{gets, sends}
pub use WindowRule.{takes}
pub use Paging.{pages_conclude, pages_record, starts_pages}
pub use Growing.{appends, records, settles, starts, stays, taken_most}
pub use Steps.{Gathers, GotOne, SentOne, gathers, got_once, got_one, sent_one, taken_once}
pub use Boarding.{back_same, seats_fewer, seats_seated}
pub use Halting.{merged_halt, one_of}
pub use Refusals.{append_step, record_step, settle_step}
pub use Running.{ended_all, ended_early, ends_last, keeps_roles, keeps_there, none_left, reads, recount, starts_empty, starts_last, takes_fetcher, takes_writer, tells_ends}
pub use Showing.{all_popped, all_pushed, back_is, shown_start}
pub use Empty.{some_from, unchanged}
pub use Counting.{counted_page}
