-- A test of many parts, by a test of its first part and of the rest.
use Rattle.std.specs.Prelude.{◌≡◌, Bool, true, false, ◌&&◌}

-- the first part fails
pub fails : (r t y x : Bool) → r ≡ t → x ≡ (t && y) → r ≡ false → false ≡ x
fails r t y x e q f = rw (q, ← e, f)

-- the first part passes
pub goes_on : (r t y x : Bool) → r ≡ t → x ≡ (t && y) → r ≡ true → x ≡ y
goes_on r t y x e q f = rw (q, ← e, f)
