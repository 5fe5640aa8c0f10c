-- Defines the value of a counted request (`Found`), as specified in docs/PROFILE.md, "The pool".
use Rattle.couch_base.specs.Feed.{WindowValue}
use Rattle.couch_base.specs.Messages.{ParcelValue}

-- A counted request: the page whose leaves are requested, and the parcel that the source returns for the request.
pub record FoundValue : Type 0 where
  pub page : WindowValue
  pub parcel : ParcelValue
