-- Reading a value as a document, check by check.
use Rattle.proof_prelude.proofs.{◌≡◌, ℕ, List, Bool, true, false, Option, Some, None, option_map, is_some, Result, Ok, Err, codes, refl, sym, ap, ◌∙◌, IsOk, false≢true}
use Rattle.serde_json.specs.Data.{Data, Members}
use Rattle.serde_json.specs.Find.{get, get_member, as_object}
use Rattle.serde_json.specs.Written.{members_have_float}
use Rattle.rev_core.specs.{RevId}
use Rattle.doc_json.specs.{has_unknown, plain_members, body_text, revs_read, doc_read, id_member, flag_of, DocFault}
use Rattle.doc_json.specs.declared.fault.DocFault.TheVariants as faults
use Rattle.doc_json.proofs.BodyReads.{is_object}

pub is_some-option_map : {A B : Type 0} (f : A → B) (o : Option A) → is_some (option_map f o) ≡ is_some o
is_some-option_map f None = refl
is_some-option_map f (Some x) = refl

-- the value of an Ok result
pub ok_value : {A E : Type 0} (r : Result A E) → IsOk r → (x : A) × (r ≡ Ok x)
ok_value (Ok x) h = (x, refl)
ok_value (Err e) h = absurd (false≢true h)

-- a member that was found
pub found_at : (k : List ℕ) (d : Data) (ms : Members) (o : Option Data) → as_object d ≡ Some ms → o ≡ get_member k ms → get k d ≡ o
found_at k d ms o object h = ap (get k) (is_object d ms object) ∙ sym h

pub no_object : (d : Data) → as_object d ≡ None → doc_read d ≡ Err faults.NotObject
no_object d e = unfold doc_read in rw e refl

module _ (d : Data) (ms : Members) (object : as_object d ≡ Some ms) where
  pub bad_id : (e : DocFault) → id_member d ≡ Err e → doc_read d ≡ Err e
  bad_id e h = unfold doc_read in rw (object, h) refl

  module _ (id : List ℕ) (named : id_member d ≡ Ok id) where
    pub attached : is_some (get (codes "_attachments") d) ≡ true → doc_read d ≡ Err faults.Attachments
    attached h = unfold doc_read in rw (object, named, h) refl

    module _ (unattached : is_some (get (codes "_attachments") d) ≡ false) where
      pub unknown : has_unknown ms ≡ true → doc_read d ≡ Err faults.SpecialMember
      unknown h = unfold doc_read in rw (object, named, unattached, h) refl

      module _ (known : has_unknown ms ≡ false) where
        pub bad_flag : (e : DocFault) → flag_of (get (codes "_deleted") d) ≡ Err e → doc_read d ≡ Err e
        bad_flag e h = unfold doc_read in rw (object, named, unattached, known, h) refl

        module _ (deleted : Bool) (flag : flag_of (get (codes "_deleted") d) ≡ Ok deleted) where
          pub bad_revs : (e : DocFault) → revs_read d ≡ Err e → doc_read d ≡ Err e
          bad_revs e h = unfold doc_read in rw (object, named, unattached, known, flag, h) refl

          module _ (revs : List RevId) (read : revs_read d ≡ Ok revs) where
            pub fraction : members_have_float (plain_members ms) ≡ true → doc_read d ≡ Err faults.Fraction
            fraction h = unfold doc_read in rw (object, named, unattached, known, flag, read, h) refl

            pub accepted : members_have_float (plain_members ms) ≡ false → doc_read d ≡ Ok (record { id = id; ancestry = revs; deleted = deleted; body = body_text ms })
            accepted h = unfold doc_read in rw (object, named, unattached, known, flag, read, h) refl
