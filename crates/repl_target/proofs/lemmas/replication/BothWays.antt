-- Two replications, one in each direction: both databases end with the same documents.
use Rattle.proof_prelude.proofs.{◌≡◌, ◌&&◌, true, List, [], Option, Some, unwrap_or, Bool, Result, Ok, Err, sym, ap, ◌∙◌, subst, inl, inr, bytes_eq, cond_both, and_parts, or_cases, bytes_eq-Decides}
use Rattle.rev_core.specs.{RevId, is_among}
use Rattle.rev_tree.specs.{TreeValue, has, is_leaf, ancestors, merged, no_revisions, Agree, IsWhole, IsGrownBy, IsGrownBy-same, IsGrownBy-merged, leaves_known, Agree-grown, IsWhole-there, IsWhole-back, same_by_leaves, same_leaves, given, Origin}
use Rattle.doc_json.specs.Document.{Document}
use Rattle.doc_json.specs.{Choice}
use Rattle.couch_base.specs.{Among, any_member, Id, DatabaseValue, LawfulDatabase, tree_in, tree_of, with_tree, tree_in-with_tree, leaf_document, put_answer, is_changed, after_put}
use Rattle.repl_peer.specs.{PeerValue, SessionValue, RefusedValue, in_ledger, covers, BackupValue, new_session, begun, Report, TargetFault}
use Rattle.repl_target.specs.{CoversFeed, IsTiedPair, IsTiedWith, IsLeft, SameDocument, beginning_between, begins_answer, after_begins, Replicates, HasRefusedNone, MeetBoth, Plan, HasGrownBy, Leaves, KeepsOthersTied}
use Rattle.repl_target.proofs.lemmas.replication.FetchedDocuments.{tree_lawful, IsLeafOf, run_keeps, database_kept}
use Rattle.repl_target.proofs.lemmas.replication.EmptyTargetCopied.{leaf_covered}
use Rattle.repl_target.proofs.lemmas.replication.ReplicationAsCalls.{replicates_left, replicates_puts}
use Rattle.repl_target.proofs.lemmas.replication.OthersStayTied.{turned_tied}

-- ---- a target's documents come from itself and from the source

module _ (old source : DatabaseValue) (law : LawfulDatabase source) where
  abbrev grown : DatabaseValue → Id → RevId → Origin → TreeValue
  grown db id leaf o = merged (tree_of db.docs id) (ancestors (tree_of source.docs id) leaf) (given (tree_of source.docs id) leaf) o

  changed_grown : (db : DatabaseValue) (at : Id) (leaf : RevId) (o : Origin) → is_leaf (tree_of source.docs at) leaf ≡ true → HasGrownBy old source db → HasGrownBy old source (with_tree db at (grown db at leaf o))
  changed_grown db at leaf o top h id =
      let t = grown db at leaf o in
      subst (λ (x : Option TreeValue). IsGrownBy (tree_of old.docs id) (tree_of source.docs id) (unwrap_or x no_revisions)) (sym (tree_in-with_tree db at t id))
      (cond_both (bytes_eq at id) (Some t) (tree_in db.docs id) (λ (x : Option TreeValue). IsGrownBy (tree_of old.docs id) (tree_of source.docs id) (unwrap_or x no_revisions))
      (λ same. subst (λ (i : Id). IsGrownBy (tree_of old.docs i) (tree_of source.docs i) t) ((bytes_eq-Decides at id).0 same)
      (IsGrownBy-merged (tree_of old.docs at) (tree_of source.docs at) (tree_of db.docs at) (tree_lawful source law at) (h at) leaf top o))
      (λ _. h id))

  put_grown : (db : DatabaseValue) (d : Document) (o : Origin) → IsLeafOf source d → HasGrownBy old source db → HasGrownBy old source (after_put db d o)
  put_grown db d o from h =
      let handed = leaf_document from.id (tree_of source.docs from.id) from.leaf in
      subst (λ (x : Document). HasGrownBy old source (after_put db x o)) (sym from.is)
      (cond_both (is_changed (put_answer db handed)) (with_tree db from.id (grown db from.id from.leaf o)) db (HasGrownBy old source) (λ _. changed_grown db from.id from.leaf o from.top h) (λ _. h))

begun_same : (P : DatabaseValue → Type 0) (p : PeerValue) (s : SessionValue) (r : Result (Unit {0}) TargetFault) → P p.db → P (begun p s r).db
begun_same P p s (Ok done) h = h
begun_same P p s (Err fault) h = h

pub left_grown : (refuses : Document → Bool) (source target : PeerValue) (plan : Plan) (now : PeerValue) → LawfulDatabase source.db → IsLeft refuses source target plan now → HasGrownBy target.db source.db now.db
left_grown refuses source target plan now law (inl same) = subst (λ (p : PeerValue). HasGrownBy target.db source.db p.db) (sym same) (λ id. IsGrownBy-same (tree_of target.db.docs id) (tree_of source.db.docs id))
left_grown refuses source target plan now law (inr left) =
    let first = begun_same (HasGrownBy target.db source.db) target (new_session plan.session (beginning_between source target plan.chosen) plan.at) (begins_answer source target plan) (λ id. IsGrownBy-same (tree_of target.db.docs id) (tree_of source.db.docs id)) in
    run_keeps refuses source.db plan.chosen plan.session (λ (p : PeerValue). HasGrownBy target.db source.db p.db)
    (database_kept refuses source.db plan.chosen plan.session (HasGrownBy target.db source.db) (λ db d o from h. put_grown target.db source.db law db d o from h)) (after_begins source target plan) now left.1 first

-- ---- one replication

-- the effect of a replication by one thread
pub replicates_leaves : (refuses : Document → Bool) (source target : PeerValue) (plan : Plan) (result : Result Report TargetFault) (source' target' : PeerValue) → Replicates refuses source target plan result source' target' → source' ≡ record source { outgoing = source'.outgoing }
    → ((chosen : Choice) (backups : List BackupValue) → IsTiedWith backups source target chosen → IsTiedWith backups source' target' chosen) → KeepsOthersTied source target source' target' → Leaves refuses source target plan source' target'
replicates_leaves refuses source target plan result source' target' h log tied others = record {
  log = log;
  put = replicates_puts refuses source target plan result source' target' h;
  left = replicates_left refuses source target plan result source' target' h;
  tied = tied;
  others = others;
}

-- ---- one replication in each direction

-- if nothing was refused, what is covered is in its tree
pub covered_stands : (p : PeerValue) (id : Id) → HasRefusedNone p id → (r : RevId) → covers p id r ≡ true → has (tree_of p.db.docs id) r ≡ true
covered_stands p id none r h =
    elim (or_cases _ _ h) [
      | inl there ↦ there
      | inr refused ↦
          let s = any_member (λ (s : SessionValue). in_ledger s.ledger id r) p.sessions refused in
          let x = any_member (λ (x : RefusedValue). bytes_eq x.doc.id id && is_among r x.doc.ancestry) s.0.ledger s.2 in
          absurd (none s.0 s.1 x.0 x.1 ((bytes_eq-Decides x.0.doc.id id).0 (and_parts _ _ x.2).0))
    ]

module _ (refuses_a refuses_b : Document → Bool) (a b a' b' a'' b'' : PeerValue) (there back : Plan)
    (law_a : LawfulDatabase a.db) (law_b' : LawfulDatabase b'.db) (law_a'' : LawfulDatabase a''.db)
    (first : Leaves refuses_b a b there a' b') (second : Leaves refuses_a b' a' back b'' a'')
    (first_whole : IsTiedPair a b there.chosen → CoversFeed a b' there.chosen a.db.update_seq)
    (second_whole : IsTiedPair b' a' back.chosen → CoversFeed b' a'' back.chosen b'.db.update_seq) where
  abbrev tree : PeerValue → Id → TreeValue
  tree p id = tree_of p.db.docs id

  same_a : a'.db ≡ a.db
  same_a = ap (λ (p : PeerValue). p.db) first.log

  same_b : b''.db ≡ b'.db
  same_b = ap (λ (p : PeerValue). p.db) second.log

  grown_there : HasGrownBy b.db a.db b'.db
  grown_there = left_grown refuses_b a b there b' law_a first.left

  grown_back : HasGrownBy a.db b'.db a''.db
  grown_back = subst (λ (db : DatabaseValue). HasGrownBy db b'.db a''.db) same_a (left_grown refuses_a b' a' back a'' law_b' second.left)

  pub both_meet : MeetBoth a b a'' b'' there back
  both_meet tied_there tied_back id none_a none_b chosen_there chosen_back = record {
    there = λ leaf top. ap (λ (db : DatabaseValue). has (tree_of db.docs id) leaf) same_b ∙ knows_there leaf top;
    back = λ leaf top. knows_back leaf (ap (λ (db : DatabaseValue). is_leaf (tree_of db.docs id) leaf) (sym same_b) ∙ top);
    same = λ agree whole_a whole_b.
        let is =
        same_by_leaves (tree a'' id) (tree b' id) (tree_lawful a''.db law_a'' id) (tree_lawful b'.db law_b' id)
        (Agree-grown (tree a id) (tree b id) (tree b' id) (tree a'' id) (grown_there id) (grown_back id) agree)
        (IsWhole-back (tree a id) (tree b id) (tree b' id) (tree a'' id) (grown_there id) (grown_back id) whole_a whole_b)
        (IsWhole-there (tree a id) (tree b id) (tree b' id) (tree a'' id) (grown_there id) (grown_back id) whole_a whole_b) knows_there knows_back in
        subst (λ (db : DatabaseValue). SameDocument a''.db db id) (sym same_b) (is, same_leaves (tree a'' id) (tree b' id) is);
    agree = λ agree.
        subst (λ (db : DatabaseValue). Agree (tree a'' id) (tree_of db.docs id)) (sym same_b)
        (Agree-grown (tree a id) (tree b id) (tree b' id) (tree a'' id) (grown_there id) (grown_back id) agree);
    whole = λ whole_a whole_b. (
      IsWhole-back (tree a id) (tree b id) (tree b' id) (tree a'' id) (grown_there id) (grown_back id) whole_a whole_b,
      subst (λ (db : DatabaseValue). IsWhole (tree_of db.docs id)) (sym same_b)
          (IsWhole-there (tree a id) (tree b id) (tree b' id) (tree a'' id) (grown_there id) (grown_back id) whole_a whole_b),
    );
  }
    where
      none_b' : HasRefusedNone b' id
      none_b' = subst (λ (ss : List SessionValue). (s : SessionValue) → Among s ss → (x : RefusedValue) → Among x s.ledger → x.doc.id ≡ id → ⊥) (ap (λ (p : PeerValue). p.sessions) second.log) none_b

      -- b has each leaf that a had
      brought : (leaf : RevId) → is_leaf (tree a id) leaf ≡ true → has (tree b' id) leaf ≡ true
      brought leaf top = covered_stands b' id none_b' leaf (leaf_covered there.chosen a.db b' law_a (first_whole tied_there) id chosen_there leaf top)

      tied_then : IsTiedPair b' a' back.chosen
      tied_then = (turned_tied a b a' b' first.others back.chosen [] (record { pair = tied_back; copies = λ x m. absurd m })).pair

      knows_back : (leaf : RevId) → is_leaf (tree b' id) leaf ≡ true → has (tree a'' id) leaf ≡ true
      knows_back leaf top = covered_stands a'' id none_a leaf (leaf_covered back.chosen b'.db a'' law_b' (second_whole tied_then) id chosen_back leaf top)

      -- b has each leaf that a has now
      knows_there : (leaf : RevId) → is_leaf (tree a'' id) leaf ≡ true → has (tree b' id) leaf ≡ true
      knows_there = leaves_known (tree a id) (tree b' id) (tree a'' id) (grown_back id) brought
