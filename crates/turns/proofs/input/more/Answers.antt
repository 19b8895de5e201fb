-- What `turns::input::more` reads stands behind the bytes that stay.
use Rattle.std.proofs.Common.{◌≡◌, ◌+◌, ◌-◌, ◌≤◌, ◌++◌, List, ℕ, length, take, drop, drop_at, length-take-le, arith, sym, ap, ◌∙◌, subst}
use Rattle.std.specs.Io.KnownBytes.{Consumes}
use borrow.Rule.Slice.PartMut.{put_mid, post_of}
use lib.Seq.{take-append-le}
use Rattle.turns.specs.Place.{drop_take}
use Rattle.turns.proofs.input.more.Goals as goal

behind : (a k n : ℕ) (xs ys : List ℕ) → a ≤ length xs → n ≤ length ys → take n ys ≡ drop a (take (a + n) (put_mid a k xs ys))
behind a k n xs ys w f =
    let m : (a + n) - a ≡ n = omega arith in
    sym
    (drop_take a (a + n) (put_mid a k xs ys) ∙ ap (take ((a + n) - a)) (drop_at (take a xs) (ys ++ post_of a k xs) a (length-take-le a xs w))
    ∙ ap (λ (j : ℕ). take j (ys ++ post_of a k xs)) m ∙ take-append-le n ys (post_of a k xs) f)

pub returns-in-Ok-clause-bytes : goal.returns-in-Ok-clause-bytes
returns-in-Ok-clause-bytes g c =
    subst (Consumes _ _)
    (behind c.args.have (length c.args.buf.now - c.args.have) c.in-Ok.n c.args.buf.now c.read.new.buf c.requires c.in-Ok.ensures.bound.0)
    c.in-Ok.ensures.bytes.0
