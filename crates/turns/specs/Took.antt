-- What a writer took of a text.
use Rattle.std.specs.Prelude.{◌≡◌, Bool, true, List, [], ◌++◌, ℕ, ◌+◌, length, take}
use Rattle.std.specs.Io.KnownBytes.{Appends}
use Rattle.std.specs.declared.option.Option.{Option}
use Rattle.std.proofs.Common.{sym, subst}
use Rattle.std.proofs.KnownBytes.{Appends-nil, Appends-trans}
use Rattle.std.proofs.Math.Seq.{take-append-add}

-- a writer that held the bytes o holds p: it took a front of the text, and all of it where it says so
pub record Took (taken : Bool) (o p : Option (List ℕ)) (text : List ℕ) : Type 0 where
  pub some : (n : ℕ) × Appends o p (take n text)
  pub all : taken ≡ true → Appends o p text

pub took_none : (taken : Bool) (o : Option (List ℕ)) → Took taken o o []
took_none taken o = record { some = (0, Appends-nil o); all = λ e. Appends-nil o }

-- a text after one that it took
pub took_more : (taken : Bool) (o p q : Option (List ℕ)) (a b : List ℕ) → Appends o p a → Took taken p q b → Took taken o q (a ++ b)
took_more taken o p q a b h k = record {
  some = (length a + k.some.0, subst (Appends o q) (sym (take-append-add a b k.some.0)) (Appends-trans o p q a (take k.some.0 b) h k.some.1));
  all = λ e. Appends-trans o p q a b h (k.all e);
}
