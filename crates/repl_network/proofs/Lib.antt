pub mod Pairs
pub mod Steps
pub mod Places
pub mod Writes
pub mod Hops
pub mod Chains
pub mod Makes
pub use Pairs.{restores_in}
pub use Steps.{empty_network, network_tied, same_uuids, step_keeps}
pub use Places.{added_net, edit_writes, hop_net, hop_tied, load_writes, same_writes, wrote_net, wrote_tied}
pub use Hops.{all_spread}
pub use Writes.{edit_agree, wrote_agree}
pub use Places.{IsOnTheWay, all_at, at_of, changed_at, ended_of, hop_of, hopped_of, hops_all, hops_next, in_net}
pub use Places.{split_changed, swapped, takes_all, takes_next, takes_refused, there_at, two_filters}
pub use Chains.{hub_spread, plans_next}
pub use Makes.{added_made, edit_made, hop_made, load_made, made_agree}
