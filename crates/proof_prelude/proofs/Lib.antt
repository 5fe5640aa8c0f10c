-- The words of the standard library that proofs cite, passed on from one place. Declares nothing.
pub use Rattle.std.proofs.Common.{All, Bool, Bor, Equal, Err, Fits, Global, Greater, HashMap, HashSet, IfErr, IfNone, IfOk, IfSome, IsAscii, IsCharBoundary, IsErrAnd, IsOk, IsPermutation, IsSome, IsSortedBy, IsTrue, IsUtf8, Less, List, MatchOption, MatchResult, None, Ok, OnErr, OnOk, Option, Ordering, Result, SFits, Some, String, T, Vec, [], add-one, add-zero, ap, append-nil, append_assoc, ap₂, arith, bytes_eq, chars, codes, cond, decimal, drop, drop-cons, drop-drop, encode_utf8, encode_utf8_all, eq-eqb, eqb, eqb-true, false, filter, find, flat_map, fold, get_or, get_or-append-add, get_or-drop, get_or-set_other, get_or-set_same, get_or-take, if◌then◌else◌, inl, inr, insert, int_lt, is_eq, is_lt, is_none, is_ok, is_some, le-leb, le-ltb, leb, leb-false, leb-true, length, length-append, length-drop, length-set, length-take, length-take-le, lt-ltb, lt_of_not-le, ltb, ltb-false, ltb-true, map, map-id, max, min, mul-le-mul_right, nat_cmp, nat_eq, nat_le, nat_lt, ne_eqb, negsuc, not, not-suc-le-zero, of_calls, of_z, option_and_then, option_copied, option_map, option_to_list, pos, position, pow-suc, refl, replicate, reverse, rules, set, slice_get, slice_index, slice_index_or, slice_set, string_bytes, string_cmp, string_eq, subst, subst₂, suc, sum, sum_by, swap, sym, take, take-add, take-append-drop, take-suc, take-take, take_all, take_at, to_z, to_z-of_z, true, true≢false, unwrap_or, vec_capacity, vec_items, vec_len, w32, w64, w8, zero, ℕ, ℤ, ⊎_elim, ◌%◌, ◌&&◌, ◌*◌, ◌++◌, ◌+◌, ◌-ℤ◌, ◌-◌, ◌/◌, ◌<◌, ◌==◌, ◌^◌, ◌||◌, ◌↔◌, ◌∙◌, ◌∷◌, ◌≡◌, ◌≢◌, ◌≤◌, ◌⊎◌}
pub use Rattle.std.proofs.KnownBytes.{Appends-kept, Appends-nil, Appends-trans, Consumes-kept, Consumes-nil, Consumes-trans, Keeps-refl}
pub use Rattle.std.proofs.Math.Bool.{and-false, and-true, and_assoc, beq, or-false, or_assoc}
pub use Rattle.std.proofs.Math.Dec.{eqb-suc-zero}
pub use Rattle.std.proofs.Math.Facts.{to_z_pos}
pub use Rattle.std.proofs.Math.Nat.{min-eq_left, min-le_right}
pub use Rattle.std.proofs.Math.Path.{fun_ext}
pub use Rattle.std.proofs.Math.Seq.{get_or-append_right, get_or-append_seam, set-append_seam, take-append_seam, take-length}
pub use Rattle.std.proofs.lemmas.Bool.{and_from, and_left, and_parts, and_right, both_ways, cases_Bool, cases_eq, cases_lt, cases_order, cond-false, cond-true, cond_both, eqb-false, false_from_ne_true, false≢true, lt-leb, not-true, not_from_false, not_from_true, or_cases, or_from, or_left, or_parts, or_right, true_from_ne_false}
pub use Rattle.std.proofs.lemmas.Bool.Decides.{Decides-eqb, nat_tests}
pub use Rattle.std.proofs.lemmas.Cmp.{alike_right, back_total, nat_list_cmp_total, nat_list_eq_equiv, tied_itself}
pub use Rattle.std.proofs.lemmas.Fmt.{IsAscii-decimal, decimal_digit, decimal_is_IsNumeral, digits_decimal, parse-decimal}
pub use Rattle.std.proofs.lemmas.Fn.{always_returns_same, filter_same}
pub use Rattle.std.proofs.lemmas.Grind.{common_steps, flat_map-append, reverse_onto}
pub use Rattle.std.proofs.lemmas.Int.Digits.{digits_more, digits_value_more}
pub use Rattle.std.proofs.lemmas.Iterator.{YieldsList-from_chars}
pub use Rattle.std.proofs.lemmas.Iterator.Consumers.{YieldsList-end}
pub use Rattle.std.proofs.lemmas.List.{append_cancel_left, append_cancel_right, at_drop_more, drop-map, drop-replicate, drop-set, drop-take, drop_all, drop_more, get_or-map, get_or-replicate, get_or-reverse, get_or_append_left, get_or_default, get_or_past, length-map, length-replicate, length-reverse, map-append, map_more, map_push, nil_from_length, reverse-append, reverse-reverse, set-append_right, take-map, take-set, take_more, take_more_set, take_rest}
pub use Rattle.std.proofs.lemmas.List.Elements.{All-cons, All-head, All-nil, All-pop, All-push, All-tail, filter-append, filter_more}
pub use Rattle.std.proofs.lemmas.List.Filters.{dedup_is}
pub use Rattle.std.proofs.lemmas.List.Folds.{list_all-append, list_all_at, list_any-append, list_any_more, prefix_len-append}
pub use Rattle.std.proofs.lemmas.List.Kept.{IsStrictlySortedBy-dedup}
pub use Rattle.std.proofs.lemmas.List.Quantifiers.{position-Some}
pub use Rattle.std.proofs.lemmas.List.Sorted.{All-permutation, IsPartitionPoint-from_clause, IsPartitionedBy-leb, IsPartitionedBy-ltb, IsPermutation-map, length_permutation, list_any-IsPermutation, ranks_by, searchable_from_sorted, searched}
pub use Rattle.std.proofs.lemmas.List.Splits.{slice_split_at, slice_split_none}
pub use Rattle.std.proofs.lemmas.List.Sums.{prefix_len-drop_yes, prefix_len-le-length, sum_by-cons, sum_by_push}
pub use Rattle.std.proofs.lemmas.Map.{keys-set_value, lookup-set_value}
pub use Rattle.std.proofs.lemmas.Map.Entries.{length-keys_of, lookup_from_place}
pub use Rattle.std.proofs.lemmas.Map.Keys.{IsDistinct-cons, IsDistinct-head, IsDistinct-tail, apart_from_distinct}
pub use Rattle.std.proofs.lemmas.Map.Steps.{length-le_from_distinct_below, set_value_same}
pub use Rattle.std.proofs.lemmas.Map.Text.{hash_map_updates_text, is_eq-slice_cmp, is_text}
pub use Rattle.std.proofs.lemmas.Nat.{le_bytes_8}
pub use Rattle.std.proofs.lemmas.Option.{MatchOption-at_some, get_or_from_slice_get, none-some, same_Some, slice_get-get_or, slice_get-map, slice_get_read, slice_get_within, unwrap_or-slice_get}
pub use Rattle.std.proofs.lemmas.Result.{IfOk-equal, IfOk-weaker, MatchResult-at_ok, err_from_is_err_and, on_err_weaker, on_ok_weaker}
pub use Rattle.std.proofs.lemmas.Simd.{chunk-drop, get_or-chunk, leading_from_mask_l, length-chunk, length-put_chunk, mask_l-mod, take_more_put_chunk, trailing_mask_l, zip2_splat, zip2_splat_left}
pub use Rattle.std.proofs.lemmas.Slice.Eq.{bytes_eq-Decides, starts_is, strip_prefix_is, strip_suffix_is}
pub use Rattle.std.proofs.lemmas.Str.{IsAscii-append, IsCharBoundary-after_ascii, IsCharBoundary-before_ascii, IsUtf8-append, IsUtf8-between, IsUtf8-from_ascii, IsUtf8-from_is_utf8, IsUtf8-nil, digit_value_digit, encodes-append, is_utf8-from_IsUtf8}
pub use Rattle.std.proofs.lemmas.Str.Ascii.{IsAscii-cons, IsAscii-more}
pub use Rattle.std.proofs.lemmas.Str.Parse.{IsNumeralModel, digit_at, numerals_by_fold}
pub use Rattle.std.proofs.lemmas.Str.Pattern.{starts_text}
pub use Rattle.std.specs.Arc.{arc_slice_items}
pub use Rattle.std.specs.BTreeMap.{is_at}
pub use Rattle.std.specs.Char.{digit_char, digit_value, is_ascii_digit, is_digit, len_utf8}
pub use Rattle.std.specs.Cmp.{Equal-is, IsEquivalence, IsTotalOrder, bool_cmp_total, eq_by_cmp_equiv, nat_cmp_is, nat_cmp_total, on_total, ranks, then_total, unsigned_ties}
pub use Rattle.std.specs.Cmp.Lexicographic.{bytes_decides, pointwise, slice_cmp, texts_ties}
pub use Rattle.std.specs.FinMap.{FinMap, IsAntisymmetric, contains_key, contains_key-keys, empty, entries, entries_sorted, from_entries, get, get-empty, get-from_entries, get-insert, keys, len, len-empty, len-insert, nat_cmp-IsAntisymmetric, same_map, slice_cmp-IsAntisymmetric}
pub use Rattle.std.specs.FinMap.Entries.{below_all, by_order, is_sorted}
pub use Rattle.std.specs.Fmt.{signed_decimal}
pub use Rattle.std.specs.HashMap.{UpdatesBy}
pub use Rattle.std.specs.Int.{IsInRange, from_be_bytes, from_le_bytes, to_le_bytes, w128}
pub use Rattle.std.specs.Io.KnownBytes.{Appends, Consumes, IsAtEnd, Keeps}
pub use Rattle.std.specs.List.{AllByRecursion, AllWithin, AllZip, join_with_byte, list_all, list_any, prefix_len, slice_split, starts_with}
unfoldable pub use Rattle.std.specs.List.{IsDistinct}
pub use Rattle.std.specs.List.Sorted.{IsBinarySearchResult, IsNonDecreasingBy, IsPartitionPoint}
unfoldable pub use Rattle.std.specs.List.Sorted.{IsStrictlySortedBy}
pub use Rattle.std.specs.Map.{keys_of, lookup, set_value, update}
pub use Rattle.std.specs.Option.{option_copied_mut, option_map_or, option_or}
pub use Rattle.std.specs.Ordering.{MatchOrdering, bool_cmp, eq_by_cmp, match_ordering, ordering_reverse, ordering_then}
pub use Rattle.std.specs.Prelude.{⊤}
pub use Rattle.std.specs.Result.{result_unwrap_or}
pub use Rattle.std.specs.Str.{all_scalars, is_utf8}
pub use Rattle.std.specs.Str.Parse.{AllDigits, digits_value, digits_value_after}
pub use Rattle.std.specs.Vec.Iter.{into_iter_items, into_iter_len}
pub use Rattle.std.specs.declared.alloc.AllocError.{AllocError}
