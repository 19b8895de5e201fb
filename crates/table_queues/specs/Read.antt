-- A read and its four bytes.
use Rattle.std.specs.Prelude.{is_some, unwrap_or}
use Rattle.std.specs.Prelude.{◌≡◌, List, [], ◌∷◌, ℕ}
use Rattle.rules.specs.Machine as rules
use Rattle.layout.specs.Numbers.{mark, flag_mark}
use Rattle.numbers.specs.Opt.{option_of}
use Rattle.layout.specs.Maybe.{maybe_back}
use Rattle.tables.specs.Decode.{read_record}
use Rattle.table_queues.specs.declared.read_list.Read.{Read}

abbrev pub read_of : Read → rules.Read
read_of x = record { leaf = x.leaf; owner = option_of x.owner; delivered = x.delivered }

abbrev pub bytes_of : Read → List ℕ
bytes_of x = x.leaf ∷ mark (is_some x.owner) ∷ unwrap_or x.owner 0 ∷ mark x.delivered ∷ []

pub read_back : (x : Read) → read_record (bytes_of x) ≡ read_of x
unfolding read_record
read_back x = rw (maybe_back x.owner, flag_mark x.delivered)
