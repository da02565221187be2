-- How often each object has to come (01, Message layout, the paragraph behind the table; answer 10).
use Rattle.std.specs.Prelude.{Bool, ◌&&◌, leb, eqb}
use Rattle.objects.specs.declared.walk.Seen.{Seen}
use Rattle.objects.specs.declared.walk.Objects.{Objects}

abbrev pub once : Seen → Bool
once seen = eqb seen.times 1

abbrev pub at_most_once : Seen → Bool
at_most_once seen = leb seen.times 1

-- a Notify needs exactly one of each
unfoldable pub notify_complete : Objects → Bool
notify_complete v = once v.session && once v.template && once v.error && once v.identifier && once v.status && once v.attribute

-- Path and PathTear need one SESSION and one SENDER_TEMPLATE, and may have one of each of the remaining four
unfoldable pub path_complete : Objects → Bool
path_complete v =
    once v.session && once v.template
    && at_most_once v.error && at_most_once v.identifier && at_most_once v.status && at_most_once v.attribute
