-- The fields of a text that are left.
use Rattle.std.specs.Prelude.{ℕ, List, [], Some, None, Option}
use Rattle.std.specs.Borrow.{Bor}
use Rattle.daytext.specs.Text.{fields_of}
use Rattle.daytext.specs.declared.parts.Fields.{Fields}

-- the fields of a text that is left, if one is
abbrev pub fields_left : Option (Bor (List ℕ)) → List (List ℕ)
fields_left None = []
fields_left (Some t) = fields_of t.now

-- the fields that are to come
abbrev pub left : Fields → List (List ℕ)
left f = fields_left f.rest
