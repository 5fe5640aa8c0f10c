-- Defines the first bytes of known formats that are not responses, as specified in docs/PROFILE.md, "CouchDB's
-- answers". The format Gzip is specified in RFC 1952, a status line in RFC 9112, and the delimiter of a part in RFC
-- 2046. The known byte order marks are the byte order marks of UTF-8 and UTF-16.
use Rattle.std.specs.Prelude.{ℕ, ◌||◌, List, [], ◌∷◌, ◌++◌, Bool, cond, codes}
use Rattle.std.specs.Str.{bytes_eq}
use Rattle.response_parser.specs.State.{State}
use Rattle.response_parser.specs.declared.place.Place.TheVariants.{Sign, Refused}
use Rattle.response_parser.specs.declared.place.Refusal.{Refusal}
use Rattle.response_parser.specs.declared.place.Refusal.TheVariants.{NoAnswer, Gzip, Html, Headers, Multipart, ByteOrderMark}

-- Whether a text is a proper prefix of the first bytes of a known format.
abbrev pub begins_sign : List ℕ → Bool
begins_sign t =
    bytes_eq t (31 ∷ []) || bytes_eq t (codes "<") || bytes_eq t (codes "-") || bytes_eq t (239 ∷ []) || bytes_eq t (239 ∷ 187 ∷ [])
    || bytes_eq t (254 ∷ []) || bytes_eq t (255 ∷ []) || bytes_eq t (codes "H") || bytes_eq t (codes "HT") || bytes_eq t (codes "HTT")
    || bytes_eq t (codes "HTTP")

-- The error for input that begins with the text t. If t identifies a known format, the error names this format. If t
-- identifies no known format, the error is `NoAnswer`.
abbrev pub sign_of : List ℕ → Refusal
sign_of t =
    cond (bytes_eq t (31 ∷ 139 ∷ [])) Gzip
    (cond (bytes_eq t (codes "<!") || bytes_eq t (codes "<h") || bytes_eq t (codes "<H")) Html
    (cond (bytes_eq t (codes "HTTP/")) Headers
    (cond (bytes_eq t (codes "--")) Multipart
    (cond (bytes_eq t (239 ∷ 187 ∷ 191 ∷ []) || bytes_eq t (254 ∷ 255 ∷ []) || bytes_eq t (255 ∷ 254 ∷ [])) ByteOrderMark NoAnswer))))

abbrev pub in_sign : State → ℕ → State
in_sign s b =
    let t = s.text ++ b ∷ [] in
    record s { place = cond (begins_sign t) Sign (Refused (sign_of t)); text = t }

abbrev pub sign_begun : State → ℕ → State
sign_begun s b = in_sign (record s { text = [] }) b
