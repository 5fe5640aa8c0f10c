use Rattle.proof_prelude.proofs.{◌≡◌, inl, inr, List, [], ◌∷◌, ◌++◌, None, is_some, Ok, Err, sym, ap, subst, ◌∙◌, option_map, option_copied}
use Rattle.rev_tree.proofs.{is_some-copied, none_of}
use Rattle.couch_base.specs.{DatabaseValue}
use Rattle.repl_peer.specs.{backup_answer, copy_of}
use Rattle.script_databases.specs.{IsConsistent, State, NamedBackupValue, peer_at, backup_among, backup_at, with_backup, backed_of, backed_answer, backed_told, backed_by, told_as, target_refusal, beside_of, state_of}
use Rattle.script_databases.proofs.{copy_refused, backed_is, backed_step}
use Rattle.script_databases.proofs.databases.Databases.back_up.Goals as goal

pub returns-in-Err-clause-answer : goal.returns-in-Err-clause-answer
returns-in-Err-clause-answer c =
    let there = sym c.find.ensures ∙ ap (λ o. option_map (λ p. p.1) (option_copied o)) c.in-Some.is in
    let kept = sym (c.find-2.ensures ∙ (λ i. backup_among c.self.inside.backups (c.in_ok-key.ensures.db i) (c.in_ok-key.ensures.name i)) ∙ ap (λ (s : State). backup_at s c.args.db.now c.args.name.now) c.self.view_is) in
    let free : backup_at c.args.self.now c.args.db.now c.args.name.now ≡ None = kept ∙ none_of (option_copied c.find-2.result) (sym (is_some-copied c.find-2.result) ∙ sym c.is_some.ensures ∙ c.if-is_some.false) in
    let is : backed_answer c.args.self.now c.args.db.now c.args.name.now ≡ told_as target_refusal (backup_answer c.in-Some.peer.now.1) = (λ i. backed_of (there i) (free i)) in
    elim (copy_refused c.in-Err.fault (backup_answer c.in-Some.peer.now.1) c.in-Err.ensures) [
      | inl e ↦ inl (ap backed_told is ∙ ap (λ r. backed_told (told_as target_refusal r)) e ∙ ap (λ r. Err r) (sym c.from.ensures))
      | inr m ↦ inr (c.from.ensures ∙ ap target_refusal m)
    ]

pub returns : goal.returns
returns c =
    let there = sym c.find.ensures ∙ ap (λ o. option_map (λ p. p.1) (option_copied o)) c.in-Some.is in
    let kept = sym (c.find-2.ensures ∙ (λ i. backup_among c.self.inside.backups (c.in_ok-key.ensures.db i) (c.in_ok-key.ensures.name i)) ∙ ap (λ (s : State). backup_at s c.args.db.now c.args.name.now) c.self.view_is) in
    let free : backup_at c.args.self.now c.args.db.now c.args.name.now ≡ None = kept ∙ none_of (option_copied c.find-2.result) (sym (is_some-copied c.find-2.result) ∙ sym c.is_some.ensures ∙ c.if-is_some.false) in
    let is : backed_answer c.args.self.now c.args.db.now c.args.name.now ≡ told_as target_refusal (backup_answer c.in-Some.peer.now.1) = (λ i. backed_of (there i) (free i)) in
    let ok =
    ap (λ (ks : List NamedBackupValue). state_of (beside_of c.self.inside.settings c.self.inside.drawn ks) c.self.inside.by_name.entries) (c.in_ok-add.ensures.ok ∙ (λ i. c.self.inside.backups ++ record { db = c.in_ok-key.ensures.db i; name = c.in_ok-key.ensures.name i; backup = c.in-Ok.backup } ∷ []))
    ∙ ap (λ (s : State). with_backup s c.args.db.now c.args.name.now c.in-Ok.backup) c.self.view_is
    ∙ sym (ap (backed_by c.args.self.now c.args.db.now c.args.name.now) (is ∙ ap (told_as target_refusal) (sym c.in-Ok.ensures))) in
    record {
      answer = ap backed_told is ∙ ap (λ r. backed_told (told_as target_refusal r)) (sym c.in-Ok.ensures) ∙ ap (λ n. Ok n) (sym (c.update_seq-seq.ensures.seq ∙ ap (λ (d : DatabaseValue). d.update_seq) c.db.ensures.value));
      ok = ok;
      err = tt;
    }

pub invariant_of-self-2 : goal.invariant_of-self-2
invariant_of-self-2 c =
    let g = beside_of c.self.inside.settings c.self.inside.drawn c.self.inside.backups in
    let es = c.self.inside.by_name.entries in
    let there = ap (λ (s : State). peer_at s c.args.db.now) c.self.view_is ∙ sym c.find.ensures ∙ ap (λ o. option_map (λ p. p.1) (option_copied o)) c.in-Some.is in
    let same = backed_is c.in-Some.peer.now.1 c.in-Ok.backup (sym c.in-Ok.ensures) in
    let is : c.add.new.self ≡ c.self.inside.backups ++ record { db = c.args.db.now; name = c.args.name.now; backup = copy_of c.in-Some.peer.now.1 } ∷ [] = c.in_ok-add.ensures.ok ∙ (λ i. c.self.inside.backups ++ record { db = c.in_ok-key.ensures.db i; name = c.in_ok-key.ensures.name i; backup = same i } ∷ []) in (
      c.self.invariant.0,
      c.self.invariant.1,
      subst (λ (ks : List NamedBackupValue). IsConsistent (state_of (beside_of c.self.inside.settings c.self.inside.drawn ks) es)) (sym is) (backed_step (state_of g es) c.self.invariant.2 c.args.db.now c.args.name.now c.in-Some.peer.now.1 there),
    )
