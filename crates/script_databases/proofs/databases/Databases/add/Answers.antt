use Rattle.proof_prelude.proofs.{arith, common_steps, rules, ap, sym, ◌∙◌, subst}
use Rattle.couch_base.specs.{DatabaseValue}
use Rattle.script_databases.specs.{State, peer_at, with_peer, Entries, IsConsistent, IsIndex, IsStored, IsTaken, beside_of, state_of}
use Rattle.script_databases.proofs.{added_step, deny_one, index_added, is_added, lawful_of, one_inserted, state_one}
use Rattle.script_databases.proofs.databases.Databases.add.Goals as goal

pub invariant_of-self : goal.invariant_of-self
invariant_of-self c =
    let g = beside_of c.self.inside.settings c.self.inside.drawn c.self.inside.backups in
    subst (λ (es : Entries). IsStored g es c.self.inside.uuids.keys) (sym c.in_err-reserve.ensures.entries) c.self.invariant

pub invariant_of-self-in_err-insert : goal.invariant_of-self-in_err-insert
invariant_of-self-in_err-insert c =
    let g = beside_of c.self.inside.settings c.self.inside.drawn c.self.inside.backups in
    subst (IsStored g c.reserve.new.self.entries) (sym c.in_err-insert.ensures.err) (subst (λ (es : Entries). IsStored g es c.self.inside.uuids.keys) (sym c.in_ok-reserve.ensures.entries) c.self.invariant)

pub invariant_of-self-in_err-insert-2 : goal.invariant_of-self-in_err-insert-2
invariant_of-self-in_err-insert-2 c = absurd (first_of (omega arith, grind (arith, common_steps), search rules))

pub invariant_of-self-2 : goal.invariant_of-self-2
invariant_of-self-2 c =
    let g = beside_of c.self.inside.settings c.self.inside.drawn c.self.inside.backups in
    let es = c.self.inside.by_name.entries in
    let new = c.insert-2.new.self.entries in
    let name = c.args.name.now in
    let peer = c.args.peer in
    let one = one_inserted es c.reserve.new.self c.insert-2.new.self c.in_ok-key.key name peer c.in_ok-reserve.ensures.entries c.in_ok-key.ensures.ok c.in_ok-insert-2.ensures.updates in
    let own = c.requires.filter ∙ ap (λ (s : State). s.program.deny) (sym c.self.view_is) in
    let free = ap (λ (s : State). peer_at s name) c.self.view_is ∙ c.requires.absent in
    let added = is_added (state_of g es) name peer.1 free (λ taken. c.requires.fresh (subst (λ (s : State). IsTaken s peer.1.db.uuid) c.self.view_is taken)) c.requires.unused in
    let is = state_one g es new name peer one in (
      deny_one g es new name peer one g.program.deny own c.self.invariant.0,
      subst (λ s. IsIndex (peer_at s) c.insert.new.self.keys) (sym is)
          (index_added _ _ name peer.1 c.self.inside.uuids.keys c.insert.new.self.keys c.uuid-uuid.result c.self.invariant.1 added (c.uuid-uuid.ensures ∙ ap (λ (d : DatabaseValue). d.uuid) c.db.ensures.value) (λ q. c.in_ok-insert.ensures.updates.0 q)),
      subst IsConsistent (sym is) (added_step (state_of g es) c.self.invariant.2 name peer.1 (lawful_of g.program.deny peer own c.law.ensures.peer, c.law.ensures.database) added),
    )

pub returns-clause-ok : goal.returns-clause-ok
returns-clause-ok c =
    let g = beside_of c.self.inside.settings c.self.inside.drawn c.self.inside.backups in
    let es = c.self.inside.by_name.entries in
    let name = c.args.name.now in
    let peer = c.args.peer in
    let one = one_inserted es c.reserve.new.self c.insert-2.new.self c.in_ok-key.key name peer c.in_ok-reserve.ensures.entries c.in_ok-key.ensures.ok c.in_ok-insert-2.ensures.updates in
    state_one g es c.insert-2.new.self.entries name peer one ∙ ap (λ (s : State). with_peer s name peer.1) c.self.view_is
