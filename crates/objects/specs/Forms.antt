-- The form that the table gives each class (01, Message layout): C-Type, length, and a SESSION_ATTRIBUTE's padding.
use Rattle.std.specs.Prelude.{ℕ, ◌+◌, ◌-◌, ◌*◌, ◌/◌, List, Bool, false, cond, not, ◌&&◌, get_or, eqb}
use Rattle.numbers.specs.Search.{zeros_at}
use Rattle.objects.specs.declared.object.Object.{Object}
use Rattle.objects.specs.Classes.{session, error_spec, sender_template, message_id, admin_status, session_attribute, passed_over}

-- an object has the C-Type and the length of a row
unfoldable pub has_form : Object → ℕ → ℕ → Bool
has_form o ctype len = eqb o.ctype ctype && eqb o.len len

-- the name length of the SESSION_ATTRIBUTE at a place
abbrev pub name_length : List ℕ → ℕ → ℕ
name_length s at = get_or s (at + 7) 0

abbrev pub rounded_up_to4 : ℕ → ℕ
rounded_up_to4 n = (n + 3) / 4 * 4

-- SESSION_ATTRIBUTE: 8 bytes and the name rounded up to 4, with zeros behind the name
unfoldable pub attribute_formed : List ℕ → Object → Bool
attribute_formed s o =
    has_form o 7 (8 + rounded_up_to4 (name_length s o.at))
    && zeros_at s (o.at + 8 + name_length s o.at) (o.len - 8 - name_length s o.at)

-- an object is as its row of the table says; a class that is not read is in no such form, MESSAGE_ID_ACK, whose row is
-- for writing, among them
unfoldable pub formed : List ℕ → Object → Bool
formed s o =
    cond (eqb o.class session) (has_form o 7 16)
    (cond (eqb o.class error_spec) (has_form o 1 12)
    (cond (eqb o.class sender_template) (has_form o 7 12)
    (cond (eqb o.class message_id) (has_form o 1 12)
    (cond (eqb o.class admin_status) (has_form o 1 8)
    (cond (eqb o.class session_attribute) (attribute_formed s o)
    false)))))

-- not as in the table, skipped and ignored classes excepted (01, answer 9)
unfoldable pub misformed : List ℕ → Object → Bool
misformed s o = not (passed_over o.class) && not (formed s o)
