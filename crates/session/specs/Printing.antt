-- What a page that starts empty holds in the end.
use Rattle.std.specs.Prelude.{◌≡◌, refl, Bool, true, false, List, [], ◌∷◌, ◌++◌, ℕ, suc, ◌+◌, ◌≤◌, ◌<◌, min, length, set, take, drop, ltb, leb}
use Rattle.std.proofs.Common.{sym, ap, ◌∙◌, append-nil, append_assoc, arith, add-one, length-append, length-set, drop-drop, drop-set-lt, take-suc-set, take_all, ltb-true, ltb-false, le-leb}
use Rattle.std.proofs.lemmas.List.{take-append-le}
use Rattle.std.proofs.lemmas.Bool.{lt-leb}
use Rattle.laws.specs.Table.{by_bool}
use Rattle.lines.specs.Page.{Page, page, put, puts}
use Rattle.session.specs.Whole.{Prints}
use Rattle.lines.specs.declared.page.Written.{Written}

-- page x holds the front of text q in bytes that were o
record Holds (q o : List ℕ) (x : Page) : Type 0 where
  size : length x.out ≡ length o
  len : x.len ≡ min (length q) (length o)
  front : take x.len x.out ≡ take x.len q
  rest : drop x.len x.out ≡ drop x.len o
  whole : x.whole ≡ leb (length q) (length o)

module _ (q o out : List ℕ) (len b : ℕ) (all : Bool) (s : length out ≡ length o) (l : len ≡ min (length q) (length o))
    (f : take len out ≡ take len q) (r : drop len out ≡ drop len o) (w : all ≡ leb (length q) (length o)) where
  more : length (q ++ b ∷ []) ≡ length q + 1
  more = length-append q (b ∷ [])

  holds_fits : len < length out → Holds (q ++ b ∷ []) o (record { out = set out len b; len = len + 1; whole = all })
  holds_fits h =
      let k : len ≡ length q = omega arith in
      let t : take len q ≡ q = take_all len q (omega arith) in
      record {
        size = length-set out len b ∙ s;
        len = (let m = more in omega arith);
        front = rw (add-one len) (take-suc-set out len b h ∙ rw (f, t) (sym (take_all (suc len) (q ++ b ∷ []) (let m = more in omega arith))));
        rest = drop-set-lt (len + 1) out len b (omega arith) ∙ sym (drop-drop 1 len out) ∙ ap (drop 1) r ∙ drop-drop 1 len o;
        whole = w ∙ le-leb (length q) (length o) (omega arith) ∙ sym (le-leb (length (q ++ b ∷ [])) (length o) (let m = more in omega arith));
      }

  holds_full : length out ≤ len → Holds (q ++ b ∷ []) o (record { out = out; len = len; whole = false })
  holds_full h = record {
    size = s;
    len = (let m = more in omega arith);
    front = f ∙ sym (take-append-le len q (b ∷ []) (omega arith));
    rest = r;
    whole = sym (lt-leb (length (q ++ b ∷ [])) (length o) (let m = more in omega arith));
  }

holds_put : (q o : List ℕ) (b : ℕ) (x : Page) → Holds q o x → Holds (q ++ b ∷ []) o (put b x)
unfolding put
holds_put q o b x h =
    by_bool (ltb x.len (length x.out))
    (λ e. rw (e, put) (holds_fits q o x.out x.len b x.whole h.size h.len h.front h.rest h.whole
    (ltb-true x.len (length x.out) e)))
    (λ e. rw (e, put) (holds_full q o x.out x.len b x.whole h.size h.len h.front h.rest h.whole
    (ltb-false x.len (length x.out) e)))

holds_puts : (t q o : List ℕ) (x : Page) → Holds q o x → Holds (q ++ t) o (puts t x)
unfolding puts
holds_puts [] q o x h = rw (append-nil q) h
holds_puts (b ∷ t) q o x h = rw (← append_assoc q (b ∷ []) t) (holds_puts t (q ++ b ∷ []) o (put b x) (holds_put q o b x h))

holds_none : (o : List ℕ) → Holds [] o (record { out = o; len = 0; whole = true })
holds_none o = record { size = refl; len = omega arith; front = refl; rest = refl; whole = sym (le-leb 0 (length o) (omega arith)) }

held : (t o p : List ℕ) (r : Written) → page p r ≡ puts t (page o (record { len = 0; whole = true })) → Holds t o (page p r)
unfolding page
held t o p r e = rw e (holds_puts t [] o (record { out = o; len = 0; whole = true }) (holds_none o))

-- a text on an empty page
pub prints : (t o p : List ℕ) (r : Written) → page p r ≡ puts t (page o (record { len = 0; whole = true })) → Prints t o r p
unfolding page
prints t o p r e = let h = held t o p r e in record { len = h.len; front = h.front; rest = h.rest; whole = h.whole }

-- what an empty page came to hold is within its bytes
pub fits : (t o p : List ℕ) (w r : Written) → w ≡ record { len = 0; whole = true } → page p r ≡ puts t (page o w) → r.len ≤ length p
unfolding page
fits t o p w r z e = let h = held t o p r (rw z at e) in omega (arith, h.size, h.len)
