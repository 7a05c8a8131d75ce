-- The names that the definitions use for the reasons of refusals, their numbers (rules 2.1 to 2.23), and how a refusal is made and passed
-- up (rules 2.27, 2.30 and 2.31). Refusal 11 is retired (rule 2.11), and there is no refusal 19 (rule 2.19). Definitions only.
use Rattle.std.specs.Prelude.{ℕ, ◌+◌, cond, eqb}
use Rattle.length.specs.declared.Reason.{Reason}
use Rattle.length.specs.declared.Reason.TheVariants as reason
use Rattle.length.specs.declared.Refusal.{Refusal}

-- the input ends inside an item or before one that must come; an empty input too (rule 2.1)
abbrev pub ends_early : Reason
ends_early = reason.EndsEarly

-- a datagram or a line of a trace is over its limit (rule 2.2)
abbrev pub too_long : Reason
too_long = reason.TooLong

-- a length or count has a form that is not allowed (rule 2.3)
abbrev pub bad_form : Reason
bad_form = reason.BadForm

-- a length, a count, n or m is outside the sizes; the octet before n is not 01 (rule 2.4)
abbrev pub outside_sizes : Reason
outside_sizes = reason.OutsideSizes

-- a spare bit, which must be zero, is set (rule 2.5)
abbrev pub spare_bit : Reason
spare_bit = reason.SpareBit

-- octets are left over (rule 2.6)
abbrev pub left_over : Reason
left_over = reason.LeftOver

-- of the number of an offered datagram: accepted before, too far ahead, and late (rules 2.7 to 2.9)
abbrev pub repeated : Reason
repeated = reason.Repeated

abbrev pub too_far : Reason
too_far = reason.TooFar

abbrev pub late : Reason
late = reason.Late

-- release without leave to skip: the number at the base is unknown (rule 2.10)
abbrev pub base_unknown : Reason
base_unknown = reason.BaseUnknown

-- an extension, a value or a field type is not assigned in the named edition (rule 2.12)
abbrev pub not_assigned : Reason
not_assigned = reason.NotAssigned

-- the result is longer than the caller's buffer (rule 2.13)
abbrev pub no_room : Reason
no_room = reason.NoRoom

-- data where none may be, or none where it must be (rule 2.14)
abbrev pub wrong_data : Reason
wrong_data = reason.WrongData

-- settings are outside the sizes; the edition is neither old nor new; given lengths do not sum to the data, or are not one for each field
-- type; a line is not made of paired hexadecimal digits; the kind octet of a C call is neither 0 nor 1 (rule 2.15)
abbrev pub wrong_settings : Reason
wrong_settings = reason.WrongSettings

-- 1,000,000 numbers have passed (rule 2.16)
abbrev pub all_passed : Reason
all_passed = reason.AllPassed

-- a session, a sending session or a joiner is outside its ranges, or an image is of such a session (rule 2.17)
abbrev pub outside_ranges : Reason
outside_ranges = reason.OutsideRanges

-- a frame would pass 300 octets (rule 2.18)
abbrev pub frame_too_long : Reason
frame_too_long = reason.FrameTooLong

-- a line of an image is missing, extra or misshapen (rule 2.20)
abbrev pub bad_image : Reason
bad_image = reason.BadImage

-- an image has another version than 01 and 02 (rule 2.21)
abbrev pub other_edition : Reason
other_edition = reason.OtherEdition

-- a trace to be compared has too many lines (rule 2.22)
abbrev pub too_many_lines : Reason
too_many_lines = reason.TooManyLines

-- no octets satisfy all equations (rule 2.23)
abbrev pub no_solution : Reason
no_solution = reason.NoSolution

-- the number of each reason, which a caller and a C program see
abbrev pub number_of : Reason → ℕ
number_of reason.EndsEarly = 1
number_of reason.TooLong = 2
number_of reason.BadForm = 3
number_of reason.OutsideSizes = 4
number_of reason.SpareBit = 5
number_of reason.LeftOver = 6
number_of reason.Repeated = 7
number_of reason.TooFar = 8
number_of reason.Late = 9
number_of reason.BaseUnknown = 10
number_of reason.NotAssigned = 12
number_of reason.NoRoom = 13
number_of reason.WrongData = 14
number_of reason.WrongSettings = 15
number_of reason.AllPassed = 16
number_of reason.OutsideRanges = 17
number_of reason.FrameTooLong = 18
number_of reason.BadImage = 20
number_of reason.OtherEdition = 21
number_of reason.TooManyLines = 22
number_of reason.NoSolution = 23
number_of (reason.Unassigned n) = n

-- the reason with a number, so that a caller and a case can give the number
abbrev pub numbered : ℕ → Reason
numbered n =
    cond (eqb n 1) ends_early
    (cond (eqb n 2) too_long
    (cond (eqb n 3) bad_form
    (cond (eqb n 4) outside_sizes
    (cond (eqb n 5) spare_bit
    (cond (eqb n 6) left_over
    (cond (eqb n 7) repeated
    (cond (eqb n 8) too_far
    (cond (eqb n 9) late
    (cond (eqb n 10) base_unknown
    (cond (eqb n 12) not_assigned
    (cond (eqb n 13) no_room
    (cond (eqb n 14) wrong_data
    (cond (eqb n 15) wrong_settings
    (cond (eqb n 16) all_passed
    (cond (eqb n 17) outside_ranges
    (cond (eqb n 18) frame_too_long
    (cond (eqb n 20) bad_image
    (cond (eqb n 21) other_edition
    (cond (eqb n 22) too_many_lines
    (cond (eqb n 23) no_solution
    (reason.Unassigned n)))))))))))))))))))))

-- a refusal of an item that begins at the octet `place`, counted from the start of the datagram or packet (rule 2.27)
abbrev pub refusal_at : ℕ → Reason → Refusal
refusal_at place why = record { reason = why; place = place }

-- a refusal with place 0: it is not met while reading (rule 2.30), or its item is at the very front
abbrev pub refusal : Reason → Refusal
refusal why = refusal_at 0 why

-- the same refusal, passed up by a function that reads from octet `start` on (rule 2.31)
abbrev pub further : ℕ → Refusal → Refusal
further start why = refusal_at (start + why.place) why.reason
