-- Flags that claim nothing are true of all data.
use Rattle.proof_prelude.proofs.{false, false≢true}
use Rattle.serde_json.specs.Data.{Data, string, array, object, Items, no_items, item, Members, no_members, member}
use Rattle.json_values.specs.{ArePlain, AreItemsPlain, AreMembersPlain}

mutual
  pub none_plain : (d : Data) → ArePlain (record { names = false; values = false }) d
  none_plain (string s) = λ known. absurd (false≢true known)
  none_plain (array ds) = no_item_plain ds
  none_plain (object ms) = no_member_plain ms
  none_plain _ = tt

  no_item_plain : (ds : Items) → AreItemsPlain (record { names = false; values = false }) ds
  no_item_plain no_items = tt
  no_item_plain (item d ds) = (none_plain d, no_item_plain ds)

  no_member_plain : (ms : Members) → AreMembersPlain (record { names = false; values = false }) ms
  no_member_plain no_members = tt
  no_member_plain (member k d ms) = (λ known. absurd (false≢true known), none_plain d, no_member_plain ms)
