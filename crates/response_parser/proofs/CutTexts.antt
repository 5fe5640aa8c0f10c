-- The texts and the outputs of a document with and without its runs.
use Rattle.proof_prelude.proofs.{◌≡◌, ℕ, slice_index, List, ◌++◌, true, refl, Some, None}
use Rattle.doc_envelope.specs.{is_json, is_log}
use Rattle.doc_envelope.specs.Names.{id_of}
use Rattle.doc_envelope.specs.Streams.{Front, start, run, next}
use Rattle.doc_envelope.proofs.{put_front_first, put_front_id, put_front_json, put_front_log, put_front_none, put_front_some, take_front_first, take_front_id, take_front_json, take_front_log, take_front_none, take_front_some}
use Rattle.response_parser.specs.{covered, wants_documents}
use Rattle.response_parser.specs.Fronts.{Cut, IsCut}
use Rattle.response_parser.specs.declared.place.Wanted.{Wanted}
use Rattle.response_parser.specs.declared.place.Wanted.TheVariants.{Documents, Enveloped, Bodies, Unfolded, Leaves, Changes}

none_begun : {f s F S : List ℕ} → Front (λ x y. ⊥) f s F S → ⊥
none_begun (start h) = h
none_begun (run h k r e) = k
none_begun (next h t d k) = k

pub cut_some : (w : Wanted) (c : Cut) (t e : List ℕ) → IsCut w c → covered w (c.stored ++ t) ≡ Some (c.front ++ e) → covered w (c.full ++ t) ≡ Some (c.written ++ e)
cut_some Enveloped c t e h k = put_front_some c.full c.stored c.written c.front t e h k
cut_some Unfolded c t e h k = take_front_some c.full c.stored c.written c.front t e h k
cut_some Documents c t e h k = absurd (none_begun h)
cut_some Bodies c t e h k = absurd (none_begun h)
cut_some Leaves c t e h k = absurd (none_begun h)
cut_some Changes c t e h k = absurd (none_begun h)

pub cut_none : (w : Wanted) (c : Cut) (t : List ℕ) → IsCut w c → covered w (c.stored ++ t) ≡ None → covered w (c.full ++ t) ≡ None
cut_none Enveloped c t h k = put_front_none c.full c.stored c.written c.front t h k
cut_none Unfolded c t h k = take_front_none c.full c.stored c.written c.front t h k
cut_none Documents c t h k = absurd (none_begun h)
cut_none Bodies c t h k = absurd (none_begun h)
cut_none Leaves c t h k = absurd (none_begun h)
cut_none Changes c t h k = absurd (none_begun h)

pub cut_json : (w : Wanted) (c : Cut) (t : List ℕ) → IsCut w c → is_json (c.full ++ t) ≡ is_json (c.stored ++ t)
cut_json Enveloped c t h = put_front_json c.full c.stored c.written c.front t h
cut_json Unfolded c t h = take_front_json c.full c.stored c.written c.front t h
cut_json Documents c t h = absurd (none_begun h)
cut_json Bodies c t h = absurd (none_begun h)
cut_json Leaves c t h = absurd (none_begun h)
cut_json Changes c t h = absurd (none_begun h)

pub cut_log : (w : Wanted) (c : Cut) (t : List ℕ) → IsCut w c → is_log (c.full ++ t) ≡ is_log (c.stored ++ t)
cut_log Enveloped c t h = put_front_log c.full c.stored c.written c.front t h
cut_log Unfolded c t h = take_front_log c.full c.stored c.written c.front t h
cut_log Documents c t h = absurd (none_begun h)
cut_log Bodies c t h = absurd (none_begun h)
cut_log Leaves c t h = absurd (none_begun h)
cut_log Changes c t h = absurd (none_begun h)

pub cut_first : (w : Wanted) (c : Cut) (t : List ℕ) → IsCut w c → slice_index (c.full ++ t) 0 ≡ slice_index (c.stored ++ t) 0
cut_first Enveloped c t h = put_front_first c.full c.stored c.written c.front t h
cut_first Unfolded c t h = take_front_first c.full c.stored c.written c.front t h
cut_first Documents c t h = absurd (none_begun h)
cut_first Bodies c t h = absurd (none_begun h)
cut_first Leaves c t h = absurd (none_begun h)
cut_first Changes c t h = absurd (none_begun h)

pub cut_wants : (w : Wanted) (c : Cut) → IsCut w c → wants_documents w ≡ true
cut_wants Enveloped c h = refl
cut_wants Unfolded c h = refl
cut_wants Documents c h = refl
cut_wants Bodies c h = refl
cut_wants Leaves c h = absurd (none_begun h)
cut_wants Changes c h = absurd (none_begun h)

pub cut_id : (w : Wanted) (c : Cut) (e : List ℕ) → IsCut w c → id_of (c.written ++ e) ≡ id_of (c.front ++ e)
cut_id Enveloped c e h = put_front_id c.full c.stored c.written c.front e h
cut_id Unfolded c e h = take_front_id c.full c.stored c.written c.front e h
cut_id Documents c e h = absurd (none_begun h)
cut_id Bodies c e h = absurd (none_begun h)
cut_id Leaves c e h = absurd (none_begun h)
cut_id Changes c e h = absurd (none_begun h)
