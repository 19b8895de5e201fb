-- What each pipeline that is made keeps, lowering a node and lowering a list of children keep.
use Rattle.std.specs.Prelude.{List, [], ◌∷◌, ℕ, zero, suc}
use Rattle.rules.specs.Job.{Kind, kids}
use Rattle.rules.specs.Plan.{node_of, keeps}
use Rattle.rules.specs.Machine.{Machine}
use Rattle.rules.specs.Lower.{lower_kind, lower_node, lower_list}
use Rattle.laws.specs.Table.{by_bool}

module _ (R : Machine → Machine → Type 0) (same : (m : Machine) → R m m) (next : (a b c : Machine) → R a b → R b c → R a c)
    (kind : (t : Kind) (k s n : ℕ) (m : Machine) → R m (lower_kind t k s n m)) where
  mutual
    unfolding lower_node

    pub node_keeps : (f k s n : ℕ) (m : Machine) → R m (lower_node f k s n m)
    node_keeps zero k s n m = same m
    node_keeps (suc f) k s n m = by_bool (keeps m.job n s)
        (λ e. let m' = lower_list f k s (kids m.job.nodes n) m in
        let t = (node_of m.job n).kind in
        rw (e, lower_node) (next m m' (lower_kind t k s n m') (list_keeps f k s (kids m.job.nodes n) m) (kind t k s n m')))
        (λ e. rw (e, lower_node) (same m))

    pub list_keeps : (f k s : ℕ) (cs : List ℕ) (m : Machine) → R m (lower_list f k s cs m)
    list_keeps zero k s cs m = same m
    list_keeps (suc f) k s [] m = same m
    list_keeps (suc f) k s (c ∷ cs) m =
        let m' = lower_node f k s c m in
        next m m' (lower_list f k s cs m') (node_keeps f k s c m) (list_keeps f k s cs m')
