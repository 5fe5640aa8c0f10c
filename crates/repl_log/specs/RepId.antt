-- Defines replication ids, as specified in docs/PROFILE.md, "Replication ids and logs".
use Rattle.std.specs.Prelude.{Bool, ◌==◌, ◌&&◌, nat_eq}
use Rattle.std.specs.Option.{option_eq}
use Rattle.std.specs.Cmp.Lexicographic.{pointwise}
use Rattle.repl_log.specs.declared.replication.RepId.{RepId}

-- Whether a and b are the ids of the same replication.
abbrev pub same_rep : RepId → RepId → Bool
same_rep a b =
    (a.source == b.source) && ((a.target == b.target) && option_eq (pointwise (pointwise nat_eq)) a.chosen b.chosen)
