pub mod Rule
pub mod Seats
pub use Rule.{Fits, InOrder, Kept, SeesRead, SeesSettled, added_read, added_settled, dealer, dealt, hired, seat_view, viewer}
pub use Seats.{AreNew, CameWith, IsLater, IsNew, SameSeat, SeatsAre}
pub use declared.board.Board.{Board}
pub use declared.rule.SeatView.{SeatView}
pub use declared.seat.BoardSeat.{BoardSeat}
