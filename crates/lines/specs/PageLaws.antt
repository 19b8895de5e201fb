-- What pages hold.
use Rattle.std.specs.Prelude.{◌≡◌, refl, false, List, [], ◌∷◌, ◌++◌, ℕ, ◌+◌, ◌≤◌, ◌<◌, length, set, drop, get_or}
use Rattle.std.proofs.Common.{sym, ap, ◌∙◌, add-one, drop_of_length-le, drop-cons, lt-ltb, le-ltb}
use Rattle.lines.specs.Page.{Page, page, put, puts}
use Rattle.lines.specs.declared.page.Written.{Written}

-- one text, then another
pub puts_append : (a b : List ℕ) (x : Page) → puts (a ++ b) x ≡ puts b (puts a x)
unfolding puts
puts_append [] b x = refl
puts_append (c ∷ a) b x = puts_append a b (put c x)

-- the other way round, to bring many texts together
pub puts_puts : (a b : List ℕ) (x : Page) → puts b (puts a x) ≡ puts (a ++ b) x
puts_puts a b x = sym (puts_append a b x)

-- one text after another
pub joined : (a b : List ℕ) (x y z : Page) → y ≡ puts a x → z ≡ puts b y → z ≡ puts (a ++ b) x
joined a b x y z e f = f ∙ ap (puts b) e ∙ sym (puts_append a b x)

-- the byte at a position, then those after it
pub puts_at : (b : List ℕ) (i : ℕ) (x y : Page) → i < length b → y ≡ put (get_or b i 0) x → puts (drop (i + 1) b) y ≡ puts (drop i b) x
unfolding puts
puts_at b i x y h e = rw (e, add-one, drop-cons b i 0)

-- nothing is left
pub puts_none : (b : List ℕ) (i : ℕ) (x : Page) → length b ≤ i → puts (drop i b) x ≡ x
unfolding puts
puts_none b i x h = rw (drop_of_length-le b h)

-- a byte that has a place
pub put_fits : (o : List ℕ) (w : Written) (b : ℕ) → w.len < length o
    → page (set o w.len b) (record { len = w.len + 1; whole = w.whole }) ≡ put b (page o w)
unfolding page put
put_fits o w b h = rw (lt-ltb w.len (length o), put)

-- a byte that has none
pub put_full : (o : List ℕ) (w : Written) (b : ℕ) → length o ≤ w.len
    → page o (record { len = w.len; whole = false }) ≡ put b (page o w)
unfolding page put
put_full o w b h = rw (le-ltb w.len (length o), put)
