pub mod Network
pub mod Nets
pub mod Hopped
pub mod Hubs
pub mod Made
pub mod Taken
pub use Nets.{AllAgree, AllChoose, AllWhole, AreKept, AreTied, EditFits, FitsIn, IsAt, IsHeld, IsNet, IsRefusedNowhere, IsRooted, IsRootedAt}
pub use Nets.{IsSameEverywhere, KeepsAgreement, Leads, LeadsEverywhere, Spread, filters_of, peers_of, tree_alone}
pub use Network.{Added, AreChanged, AreConsistent, AreCopiesAt, AreTiedAt, BackedUp, Becomes, ComeFromOthers, IsAdded, IsCopyAt, IsHeldBy, IsNetwork, IsOther}
pub use Network.{IsReplicated, LeadToOthers, Replicated, Restored, Step, Writes, Written}
pub use Hopped.{AllHopped, AllLawful, Carried, Ended, IsChangedAt}
pub use Hubs.{AllPlansChoose, HubSpread, gathers, hops_of, into_hub, out_of_hub, spreads}
pub use Made.{AllMadeBy, EditValue, HaveNoCollision, IsMadeBy, IsOneOf, MadeAgree, Makes, StaysMade, StaysMadeByEdit, StaysMadeExcept}
pub use Taken.{AnswersAt, IsHop, TakesHop, TakesHops, TakesHub, no_source, no_target, one_place, refused, taken}
pub use declared.fault.NetFault.{NetFault}
pub use declared.hop.Hop.{Hop}
