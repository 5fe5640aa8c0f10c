-- Changes of one named database.
use Rattle.proof_prelude.proofs.{◌≡◌, inl, inr, ℕ, List, refl, sym, ap, subst, ◌∙◌, Some, Result, Ok, Err, OnErr, OnOk, String, string_bytes, UpdatesBy, lookup, bytes_eq, is_text, string_eq, MatchResult-at_ok, on_err_weaker, on_ok_weaker}
use Rattle.std.specs.declared.alloc.Global.{Global}
use Rattle.std.specs.HashMap.{HashMap}
use Rattle.rev_core.specs.{RevId}
use Rattle.couch_base.specs.{EditGives, LawfulDatabase, PutGives, BaseFault}
use Rattle.couch_base.specs.declared.fault.BaseFault.TheVariants as base
use Rattle.couch_base.specs.declared.fault.Put.{Put}
use Rattle.repl_peer.specs.{BackupValue, GivesUnlessMemory, Lawful, PeerValue, Rules, TargetFault, after_restore, restore_answer, restored, restored_by, rules_refuse}
use Rattle.repl_network.specs.{Writes}
use Rattle.repl_network.proofs.{same_writes}
use Rattle.script_databases.specs.{GivesOrMemory, told_as, base_refusal, target_refusal, peer_at, with_changed, changed_at, edited_as, put_back_of, Beside, IsConsistent, IsIndex, IsStored, IsWithOne, deny_of, deny_refuses, state_of, with_peer}
use Rattle.script_databases.specs.declared.refusal.Refusal.{Refusal}
use Rattle.script_databases.proofs.BackupLemmas.{copy_refused}
use Rattle.script_databases.proofs.Tables.{at_of, deny_one, lawful_of, one_updated, peer_same, state_one}
use Rattle.script_databases.proofs.Networks.{index_with, written_step}

-- ---- the results of calls on a database, with the errors' names

module _ (P Q : Type 0) where
  pub load_gives : (r expected : Result Put BaseFault) → PutGives r expected → OnOk r P → OnErr r Q → GivesOrMemory (told_as base_refusal r) (told_as base_refusal expected) × OnOk (told_as base_refusal r) P × OnErr (told_as base_refusal r) Q
  load_gives (Ok put) expected h p q = (ap (told_as base_refusal) (sym h), p, tt)
  load_gives (Err base.Memory) expected h p q = (inr refl, tt, q)
  load_gives (Err fault) expected h p q = (inl (ap (told_as base_refusal) (sym h)), tt, q)

  pub edit_gives : (u after : PeerValue) (r expected : Result RevId BaseFault) → EditGives r expected → OnOk r (u ≡ after) → OnOk r P → OnErr r Q → GivesOrMemory (edited_as u r) (edited_as after expected) × OnOk (edited_as u r) P × OnErr (edited_as u r) Q
  edit_gives u after (Ok rev) expected h is p q = (ap (edited_as after) (sym h) ∙ ap (λ x. edited_as x (Ok rev)) (sym is), p, tt)
  edit_gives u after (Err base.Memory) expected h is p q = (inr refl, tt, q)
  edit_gives u after (Err fault) expected h is p q = (inl (ap (edited_as after) (sym h)), tt, q)

  pub restore_gives : (b : BackupValue) (l u : PeerValue) (r : Result (Unit {0}) TargetFault) → GivesUnlessMemory r (restore_answer l b) → OnOk r (u ≡ after_restore l b) → OnOk r P → OnErr r Q
      → GivesOrMemory (put_back_of u (told_as target_refusal r)) (put_back_of (restored l b) (told_as target_refusal (restore_answer l b))) × OnOk (put_back_of u (told_as target_refusal r)) P × OnErr (put_back_of u (told_as target_refusal r)) Q
  restore_gives b l u (Ok done) h is p q = (ap (λ r. put_back_of (restored l b) (told_as target_refusal r)) (sym h) ∙ ap (λ x. put_back_of x (Ok done)) (sym (is ∙ ap (restored_by l b) (sym h))), p, tt)
  restore_gives b l u (Err fault) h is p q = (
    elim (copy_refused fault (restore_answer l b) h) [ inl e ↦ inl (ap (λ r. put_back_of (restored l b) (told_as target_refusal r)) e) | inr m ↦ inr (ap target_refusal m) ],
    tt,
    q,
  )

-- two equal successful results have equal values
pub same_Ok : {A : Type 0} (x y : A) → ◌≡◌ {A = Result A Refusal} (Ok x) (Ok y) → x ≡ y
same_Ok x y e = MatchResult-at_ok {r = Ok x} (λ z. x ≡ z) (λ _. ⊥) y e refl

-- ---- the peer l of a name, which u replaces

module _ {S : Type 0} (g : Beside) (old new : HashMap (String Global) (Rules × PeerValue) S) (name : List ℕ) (l u : Rules × PeerValue)
    (there : Some l ≡ lookup (is_text name) old.entries) (updates : UpdatesBy string_eq (λ s. bytes_eq name (string_bytes s)) old new (Some u)) where
  one : IsWithOne old.entries name u new.entries
  one = one_updated old new name u updates

  was : peer_at (state_of g old.entries) name ≡ Some l.1
  was = at_of old.entries name (Some l) (sym there)

  is : state_of g new.entries ≡ with_peer (state_of g old.entries) name u.1
  is = state_one g old.entries new.entries name u one

  -- the state changes in the same way, or is unchanged
  pub changes : {A E : Type 0} (f : PeerValue → PeerValue) (r : Result A E) → OnOk r (u.1 ≡ f l.1) → OnOk r (state_of g new.entries ≡ changed_at (state_of g old.entries) name f)
  changes f r = on_ok_weaker r (λ e. is ∙ ap (with_peer (state_of g old.entries) name) e ∙ sym (ap (with_changed (state_of g old.entries) name f) was))

  pub stays : {A E : Type 0} (r : Result A E) → OnErr r (u.1 ≡ l.1) → OnErr r (state_of g new.entries ≡ state_of g old.entries)
  stays r = on_err_weaker r (λ e. is ∙ ap (with_peer (state_of g old.entries) name) e ∙ peer_same (state_of g old.entries) name l.1 was)

  pub writes_of : {A E : Type 0} (f : PeerValue → PeerValue) (r : Result A E) → OnOk r (u.1 ≡ f l.1) → OnErr r (u.1 ≡ l.1) → Writes l.1 (f l.1) → Writes l.1 u.1
  writes_of f (Ok x) e k w = subst (Writes l.1) (sym e) w
  writes_of f (Err x) e k w = subst (Writes l.1) (sym k) (same_writes l.1)

  -- the databases stay consistent if the new peer is lawful, and has the old filter and UUID
  pub stored : (uuids : List ℕ) → Lawful (rules_refuse u.0) u.1 → LawfulDatabase u.1.db → u.1.db.uuid ≡ l.1.db.uuid → u.0 ≡ l.0
      → (IsConsistent (state_of g old.entries) → Lawful (deny_refuses g.program.deny) u.1 × LawfulDatabase u.1.db → IsConsistent (with_peer (state_of g old.entries) name u.1)) → IsStored g old.entries uuids → IsStored g new.entries uuids
  stored uuids law database uuid filter step kept =
      let own = ap deny_of filter ∙ kept.0 name l (sym there) in (
        deny_one g old.entries new.entries name u one g.program.deny own kept.0,
        subst (λ s. IsIndex (peer_at s) uuids) (sym is) (index_with (state_of g old.entries) name l.1 u.1 was uuids uuid kept.1),
        subst IsConsistent (sym is) (step kept.2 (lawful_of g.program.deny u own law, database)),
      )

  pub stored_written : (uuids : List ℕ) → Lawful (rules_refuse u.0) u.1 → LawfulDatabase u.1.db → Writes l.1 u.1 → u.0 ≡ l.0 → IsStored g old.entries uuids → IsStored g new.entries uuids
  stored_written uuids law database w filter = stored uuids law database w.later.db.uuid filter (λ h own. written_step (state_of g old.entries) name l.1 u.1 was h own w)
