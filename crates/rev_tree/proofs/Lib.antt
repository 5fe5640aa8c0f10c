pub mod Alone
pub mod Answering
pub mod Asking
pub mod Edges
pub mod Falling
pub mod Fronts
pub mod Indexing
pub mod Leaves
pub mod Linking
pub mod Lookups
pub mod Members
pub mod Places
pub mod Putting
pub mod Rooms
pub mod Sharing
pub mod Showing
pub mod Setting
pub mod Sorting
pub mod Starts
pub mod Tournaments
pub mod Views
pub mod Walking
pub mod Winning
pub use Alone.{IsLinked-single, agrees-single, alone_tree, ancestors-single, edges-single, lone_node, only_item}
pub use Answering.{answer_known, answer_missed, changed_from_answer, is_told_same, none_from_answer, same_from_answer}
pub use Asking.{IsAsked, above_itself, asked_at, asked_nowhere, only_is, skip_last, skip_step, told_from_asked, told_more}
pub use Edges.{contradiction_here, edges_known, edges_missed, no_contradiction_at, told_contradiction, told_none}
pub use Falling.{all_behind, fallen_missed, fallen_place, falls_end, falls_split, nodes_step, none_first, nowhere, stays_unfallen}
pub use Fronts.{behind_ties, bytes_of_sig, eight_are, eight_at, front_first, front_of-padded, words_decide}
pub use Indexing.{index_empty, index_fallen, index_few, index_gone, index_held, index_many, index_short, length_marks, marks_more, marks_within}
pub use Indexing.{unmarked, walk_end, walk_here, walk_later}
pub use Leaves.{IsBest, best_none, best_of_all, best_placed, count_more, count_once, deleted_item, leaf_item, leaves_more, leaves_of_nodes}
pub use Leaves.{leaves_pushed, length-leaves, lone_leaf, none_there, second_leaf}
pub use Linking.{IsAdded, IsEdged, IsGiven, added, edged, given, length-revs_in, same_length, tree_has, tree_known, tree_named}
pub use Lookups.{Shows, content_is, has_is, is_some-copied, leaf_is, ok_known, parent_is, parent_shown, shows_itself}
pub use Members.{item_among, kept_fail, kept_pass}
pub use Places.{is_some-node_of, node_at, none_of, place_at, place_known, place_none, place_unknown, place_within, read_alike, read_at, rev_at_place}
pub use Places.{slice_get-append, slice_get-last}
pub use Putting.{IsPut, blocks_first, blocks_next, child_at, next_unplaced, put_end, put_next, put_start, room_first, room_for, room_next, standing}
pub use Rooms.{all_new, count_next, count_within, fewer_new, known_counts_not, new_counts}
pub use Sharing.{IsScanned, all_scanned, all_shown, only_leaves, other_origin, scanned_first, scanned_more, shared_leaf, single}
pub use Showing.{IsTree-shows, grown, kept_longer, leaves_shown, length-shown, origin_is, same_shown, shows, stored_shows, stored_tree}
pub use Sorting.{leaves_in_order, pair_cmp, pair_cmp_total, told, told_deleted}
pub use Starts.{IsIndexed-none, IsLinked-none}
pub use Tournaments.{AreKept, IsKeptNode, best_leaf, before_self, entered_leaf, entered_parent, kept_played, kept_push, kept_set, kept_twice, moved_played, opposite, played_again, played_but, unplayed}
pub use Tournaments.{empty_played, entry_leaf, entry_match, entry_none, entry_parent, same_played}
pub use Tournaments.{alone, entry_at, one_wins, other_alone, other_wins, under_match, under_node}
pub use Views.{len-origins}
pub use Walking.{first_there, generation_at, last, place_is, step}
pub use Winning.{IsLed-none, adds_head, after_head, after_lookup, after_stays, best_wins, first_at, first_put, led_winner, rev_of_place, some_head}
