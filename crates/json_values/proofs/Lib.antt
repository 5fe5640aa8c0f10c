pub mod NumberReads
pub mod Conversions
pub mod FirstTokens
pub mod ValueReads
pub mod WholeReads
pub mod LineMembers
pub mod LineReads
pub mod PutEntries
pub mod NameOrder
pub mod OrderedReads
pub mod PlainReads
pub mod PartReads
pub mod Lanes
pub mod AsciiText
pub mod Runs
pub mod Content
pub mod Backslashes
pub mod Passing
pub mod NumberStarts
pub mod Steps
pub mod Wording
pub mod Integers
pub mod Punctuation
pub mod Moves
pub use NumberReads.{below_digits, from_digits, number_of-minus, number_of-no_minus, opposite}
pub use FirstTokens.{endless, keyless, neither, not_a_key, not_a_value, read-array, read-boolean, read-deep_array, read-deep_object, read-nothing}
pub use FirstTokens.{read-null, read-number, read-object, read-string}
pub use ValueReads.{items-none, items-one, items-refused, members-no_key, members-none, members-one, members-refused}
pub use WholeReads.{read-all, some_text}
pub use LineMembers.{get_member-here, get_member-past}
pub use LineReads.{Named, items_onto, items_onto-no_items, members-put, parse_map-items_onto, view-Array, view-Object}
pub use PutEntries.{put_behind, put_front, put_last, put_tied, rising_front, rising_none, rising_put, set_between}
pub use NameOrder.{second_greater, second_less}
pub use OrderedReads.{ordered-read}
pub use PlainReads.{items_more, items_still, members_more, members_still, narrows_on, passing_front}
pub use PartReads.{part_found}
pub use Lanes.{at_least, below, either, hit, is_high, masked, none_high}
pub use AsciiText.{ascii_joined}
pub use Runs.{both_clear, end_clear, end_stops, end_through, run_bound, run_stops, run_through}
pub use Content.{at_backslash, at_control, at_end, at_quote, content-after_backslash, content-after_high, content-after_u, content-nil}
pub use Backslashes.{backslash_at}
pub use Content.{content-to_stop, cut_back, len_utf8-le, no_content, prepend-prepend, short_after_high, short_after_u, stop_is_backslash}
pub use Passing.{escape_from, in_escape-any, in_string-backslash, in_string-low_half, in_string-quote, in_string-to_stop, in_string-unit, lex-blank}
pub use Passing.{lex-operator, lex-quote}
pub use NumberStarts.{Found, number_ascii}
pub use Steps.{lex_first, quote_at}
pub use Wording.{Stands, literal_at, number_at}
pub use Integers.{digit_range, integer_passed, integer_word, minus_integer, minus_place, plain_integer}
pub use Punctuation.{IsWord, IsWord-word, allowed, at_operator, at_string, bad_word, begun, closed, closing, ended, good_word, no_brace, no_colon}
pub use Punctuation.{no_end_array, no_key, no_key_yet, not_begun, not_closed, plain_word, refused_no_brace, refused_no_end, rest, stray}
pub use Moves.{moved_down, stays_last}
