-- Bodies that are UTF-8, and bodies that are not.
use Rattle.std.proofs.Common.{◌≡◌, Bool, true, false, Option, None, sym, refl, subst}
use Rattle.std.specs.Str.{IsUtf8, is_utf8}
use Rattle.std.proofs.lemmas.Str.{IsUtf8-from_is_utf8, is_utf8-from_IsUtf8}
use Rattle.json.specs.Json.{Json, document}
use Rattle.relay_core.specs.Messages.{Text}
use Rattle.relay_responses.specs.Read.{json_in}

pub is_utf8-not : (body : Text) (b : Bool) → is_utf8 body ≡ b → ¬ IsUtf8 body → is_utf8 body ≡ false
is_utf8-not body true e h = absurd (h (IsUtf8-from_is_utf8 body e))
is_utf8-not body false e h = e

-- a body that is not UTF-8 is no value
pub json_in-not_utf8 : (body : Text) → ¬ IsUtf8 body → None ≡ json_in body
json_in-not_utf8 body h = rw (is_utf8-not body (is_utf8 body) refl h) refl

-- a body in UTF-8 is the value of its text
pub json_in-utf8 : (body text : Text) (o : Option Json) → text ≡ body → IsUtf8 body → document text ≡ o → o ≡ json_in body
json_in-utf8 body text o e h d = rw (is_utf8-from_IsUtf8 body h) (sym (let P : Text → Type 0 = λ s. document s ≡ o in subst P e d))
