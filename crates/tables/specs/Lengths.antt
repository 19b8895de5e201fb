-- How many entries the tables of a view have, and that nothing stands past them.
use Rattle.std.specs.Prelude.{◌≡◌, List, ℕ, ◌≤◌, length}
use Rattle.std.proofs.Math.Option.{none}
use Rattle.std.proofs.Common.{arith}
use Rattle.rules.specs.Table.{get}
use Rattle.rules.specs.Machine.{no_pipe, no_port, pipe_at, port_at}
use Rattle.laws.specs.Table.{get_past}
use Rattle.layout.specs.Cut.{cut}
use Rattle.layout.specs.Records.{length_table}
use Rattle.tables.specs.Decode.{pipeline, port, active_split}
use Rattle.tables.specs.View.{view}

module _ (s : List ℕ) where
  pub length_pipes : length (view s).pipes ≡ 96
  unfolding view
  length_pipes = length_table pipeline 5 96 (cut 3327 3807 s)

  pub length_ports : length (view s).ports ≡ 456
  unfolding view
  length_ports = length_table port 6 456 (cut 14751 17487 s)

  pub length_active : length (view s).active ≡ 3
  unfolding view
  length_active = length_table active_split 2 3 (cut 6 12 s)

  pub pipe_past : (p : ℕ) → 96 ≤ p → pipe_at (view s) p ≡ no_pipe
  pipe_past p h = let e = length_pipes in get_past no_pipe (view s).pipes p (omega (arith, e))

  pub port_past : (x : ℕ) → 456 ≤ x → port_at (view s) x ≡ no_port
  port_past x h = let e = length_ports in get_past no_port (view s).ports x (omega (arith, e))

  pub active_past : (k : ℕ) → 3 ≤ k → get none (view s).active k ≡ none
  active_past k h = let e = length_active in get_past none (view s).active k (omega (arith, e))
